-- The text of the listing.
pub mod Text
pub mod Lines
pub mod Listing
pub mod clauses
