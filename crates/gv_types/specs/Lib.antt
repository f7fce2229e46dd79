pub mod Classes
pub mod SingleTuples
pub mod TypeStr
pub mod TypePrefix
pub mod Members
pub mod TypeFaults
pub mod Paths
pub mod FirstTypes
