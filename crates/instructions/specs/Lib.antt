-- What `instructions` means, file by file.
pub mod Rules
pub mod Board
pub mod Record
pub mod Fields
pub mod Operations
pub mod Suspend
pub mod Faults
pub mod Wishes
pub mod Step
pub mod Refusals
pub mod Calls
pub mod Depot
pub mod Marked
pub mod Listing
