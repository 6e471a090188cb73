pub mod Tkw
pub mod CmsKeyWrap
