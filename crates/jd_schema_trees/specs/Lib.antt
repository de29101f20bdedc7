pub mod HeadViews
pub mod TermViews
pub mod CodeViews
pub mod FormulaViews
pub mod TacletViews
