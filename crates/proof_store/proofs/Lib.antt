-- That a store keeps what is stored: lemmas on tables that differ in zeros at their ends alone, then both ways through a file, then the promises themselves.
pub mod Alike
pub mod Tables
pub mod Prints
pub mod Read
pub mod Written
pub mod Stores
pub mod Back
pub mod Promises
pub mod Results
pub mod Reports
pub mod Examples
