mod Loops
mod Among
mod Same
mod Room
