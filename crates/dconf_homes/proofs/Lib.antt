pub mod HomeProofs
pub mod LookProofs
