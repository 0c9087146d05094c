pub mod Checked
pub mod Trees
