pub mod Faults
pub mod FormulaMakers
pub mod TermMakers
