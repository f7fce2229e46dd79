pub mod CoveredPaths
pub mod DirectoryValues
pub mod ListSteps
