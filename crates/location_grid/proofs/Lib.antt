mod Bits
mod Boxes
mod Founds
mod Lines
mod Orders
mod Sides
