pub mod BitProofs
pub mod WatchProofs
pub mod FlagProofs
pub mod RoundProofs
