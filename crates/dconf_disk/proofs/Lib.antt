pub mod DrivingLaws
mod DrivenLaws
