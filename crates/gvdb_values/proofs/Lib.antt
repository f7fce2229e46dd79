pub mod WithValues
