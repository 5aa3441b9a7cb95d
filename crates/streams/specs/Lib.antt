-- Text is the law: how a program hands over its text.
pub mod Text
