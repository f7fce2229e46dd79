pub mod CountLaws
pub mod PastLaws
pub mod RenamedLaws
pub mod EitherKinds
pub mod OneFile
