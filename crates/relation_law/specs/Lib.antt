pub mod Curve
pub mod CurveExamples
pub mod Cuts
pub mod Shapes
