pub mod Salvaged
