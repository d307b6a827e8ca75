mod Listing
mod Sizes
mod Same
mod Whole
