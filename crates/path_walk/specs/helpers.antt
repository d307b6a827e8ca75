-- No promise uses the definitions in this folder.
pub mod Accounts
pub mod Drafts
