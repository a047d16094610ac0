pub mod UnmapCont
pub mod Demand
