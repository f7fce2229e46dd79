pub mod RoleLaws
pub mod FindingLaws
pub mod FolderLaws
pub mod PlaceLaws
pub mod SiteLaws
