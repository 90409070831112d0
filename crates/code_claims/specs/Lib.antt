-- What `code_claims` says.
pub mod Claim
pub mod Sheets
