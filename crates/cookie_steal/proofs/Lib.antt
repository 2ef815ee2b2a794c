mod Enumerated
mod Candidates
mod Steals
mod Counted
