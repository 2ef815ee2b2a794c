mod Ranks
mod Leaving
mod Past
mod Sleeping
mod Steps
mod Moving
mod Each
