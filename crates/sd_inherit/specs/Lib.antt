-- What a new object inherits (MS-DTYP 2.5.3.4).
pub mod Copies
pub mod Derived
pub mod Inner
pub mod OriginLaws
pub mod Origins
pub mod PlanLimits
pub mod Taken
