mod Fields
mod Filled
