pub mod BeginsLaws
pub mod ServedLaws
pub mod FolderLaws
