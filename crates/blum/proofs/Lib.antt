mod Moved
mod Stepped
mod Marked
mod Framed
