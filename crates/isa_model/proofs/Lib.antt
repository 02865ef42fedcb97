pub mod Examples
pub mod StepExamples
pub mod Effects
