mod Folds
mod Bounds
mod Same
