mod Opening
mod Views
mod Told
