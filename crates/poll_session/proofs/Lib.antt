mod Appending
mod Asks
mod Ending
mod Finding
mod Holding
mod OneTick
mod Telling
