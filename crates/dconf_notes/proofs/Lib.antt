pub mod RecordLaws
pub mod RoomLaws
pub mod TurnLaws
