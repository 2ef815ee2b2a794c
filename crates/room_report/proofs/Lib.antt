mod Left
mod Pieces
mod Spelled
