mod Writes
mod Told
mod Copies
mod Spells
mod Gathered
mod Known
mod Standing
