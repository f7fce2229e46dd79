pub mod WrittenValues
