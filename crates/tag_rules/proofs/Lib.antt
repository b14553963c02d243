mod Barring
mod Uses
