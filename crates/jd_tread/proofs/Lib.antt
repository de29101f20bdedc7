pub mod Deciding
pub mod MadeFormulas
pub mod MadeTerms
pub mod Many
