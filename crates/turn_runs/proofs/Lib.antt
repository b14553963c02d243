mod Searched
mod Told
