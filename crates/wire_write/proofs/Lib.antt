mod Measured
mod Pages
