pub mod HexReading
pub mod Inner
pub mod Text
