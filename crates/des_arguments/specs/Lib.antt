pub mod StreamArguments
pub mod CommandArguments
pub mod PasswordArguments
pub mod LineArguments
