-- What well-formed tables say. Items: what the theory by names asks of items. Counts: as many rows of each table as their items have.
pub mod Cases
pub mod Counts
pub mod Parts
pub mod Statements
pub mod Items
