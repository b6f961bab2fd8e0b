mod Alike
