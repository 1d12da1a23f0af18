-- The listing by row numbers is the listing by names.
pub mod Maps
pub mod Names
pub mod Views
pub mod Items
pub mod Spans
pub mod FormedRows
pub mod FormedItems
pub mod Formed
