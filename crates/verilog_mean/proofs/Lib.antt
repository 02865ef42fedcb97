pub mod SoundExamples
pub mod Ordered
pub mod Driven
pub mod NoLoop
pub mod CycleExamples
