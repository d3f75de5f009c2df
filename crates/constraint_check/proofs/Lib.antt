pub mod FullTables
pub mod StepLemmas
pub mod FirstOver
pub mod PieceLemmas
pub mod EndLaws
