mod Texts
mod Days
mod Rooms
mod Names
mod Claims
