-- What holds of reading: how many rows each rule claims, that its loops come to an end, that it moves on, and what capacities change.
-- How a rule ends, and what rules are made of.
pub mod Ends
pub mod Parts
-- Rows claimed by each rule, and the law of a repeated rule.
pub mod Does
pub mod Claims
pub mod Many
-- Rules that leave the scope and the statements as they are.
pub mod Steady
-- What holds of the parts of the grammar holds of every rule; and four things that do.
pub mod Rules
pub mod Fuel
pub mod Progress
pub mod Capacity
pub mod Fitting
