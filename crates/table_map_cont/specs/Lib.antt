pub mod MapCont
pub mod Count
pub mod Laws
