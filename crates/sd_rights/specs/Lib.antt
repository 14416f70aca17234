pub mod AccessRights
pub mod HexValues
pub mod Mapping
pub mod MappingValues
pub mod RightValues
pub mod Rights
