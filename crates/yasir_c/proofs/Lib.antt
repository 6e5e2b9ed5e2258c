mod Values
mod Owners
mod Holding
mod Causes
mod Telling
