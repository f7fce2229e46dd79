pub mod HashLanes
