pub mod Programs
pub mod BadFiles
