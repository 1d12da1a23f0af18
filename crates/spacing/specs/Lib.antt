-- The words in which it is said that spacing is nothing: the tokens of a text without their places, and two read calls that answer alike.
pub mod TokenList
pub mod Alike
