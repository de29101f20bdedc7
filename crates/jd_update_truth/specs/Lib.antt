pub mod SortedFormulas
pub mod UpdateLaws
pub mod PushedExamples
