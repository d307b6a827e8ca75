mod Kept
mod There
mod Lines
mod Once
mod Rests
