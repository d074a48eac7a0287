mod Acting
mod Imaging
mod Turns
