mod Added
mod Escapes
mod Climbs
mod Loops
mod Ready
mod Served
